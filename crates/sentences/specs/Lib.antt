pub mod Pages
pub mod Questions
pub mod Rows
