pub mod Answered
pub mod OneLine
pub mod Prints
pub mod Room
pub mod Turns
