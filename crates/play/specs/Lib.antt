pub mod Numbers
pub mod Parting
pub mod Traced
pub mod Waiting
pub mod Watched
pub mod Whole
