pub mod Levels
pub mod Numbers
pub mod Open
pub mod Rights
