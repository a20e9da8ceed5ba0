pub mod Rows
pub mod Words
