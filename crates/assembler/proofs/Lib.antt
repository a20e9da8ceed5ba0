mod Aimed
mod Counted
pub mod Counts
pub mod Emission
pub mod Firsthand
pub mod Forms
pub mod Judges
mod Mapped
pub mod Numbered
pub mod Strings
pub mod Turns
