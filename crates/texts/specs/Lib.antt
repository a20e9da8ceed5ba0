pub mod Marks
pub mod Meant
