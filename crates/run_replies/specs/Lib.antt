pub mod Asked
pub mod Comparing
pub mod Partings
pub mod Permits
pub mod Running
pub mod Wishes
