pub mod Again
pub mod Alike
pub mod Faults
pub mod Loaded
pub mod Reading
pub mod Spans
pub mod Steps
pub mod Telling
