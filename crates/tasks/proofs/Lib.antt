pub mod Back
pub mod Entries
pub mod Fronts
pub mod Made
pub mod Sides
pub mod Whole
