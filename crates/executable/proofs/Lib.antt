pub mod Accepted
pub mod Quads
