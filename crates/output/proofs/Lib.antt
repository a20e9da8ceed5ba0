pub mod Puts
pub mod Writes
