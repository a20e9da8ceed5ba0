pub mod Overlay
pub mod Writes
