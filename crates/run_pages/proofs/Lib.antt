pub mod Joined
pub mod Registers
pub mod Turns
