pub mod Division
pub mod Pairs
