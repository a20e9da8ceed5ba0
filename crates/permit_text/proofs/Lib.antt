pub mod Capped
pub mod Lines
pub mod Parts
