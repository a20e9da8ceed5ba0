pub mod Errors
pub mod Files
pub mod Settings
pub mod Words
