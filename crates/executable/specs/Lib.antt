pub mod Bytes
pub mod Check
pub mod Numbers
pub mod Questions
