pub mod Assembling
pub mod Checking
pub mod Difference
pub mod Listing
pub mod Sameness
