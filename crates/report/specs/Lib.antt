pub mod Lines
pub mod Meanings
