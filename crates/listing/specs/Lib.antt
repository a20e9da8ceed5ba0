pub mod Lines
pub mod Listing
pub mod Numbers
pub mod Printout
