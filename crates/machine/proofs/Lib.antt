pub mod Cells
pub mod Returns
pub mod Sequences
pub mod Steps
pub mod Turning
