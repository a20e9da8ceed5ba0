pub mod Assembled
pub mod Checked
pub mod Compared
pub mod Helped
pub mod Listed
pub mod Taped
