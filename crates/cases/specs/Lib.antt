pub mod Repeated
pub mod Sum
