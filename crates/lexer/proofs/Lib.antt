pub mod Again
pub mod Divides
pub mod Split
pub mod Stands
