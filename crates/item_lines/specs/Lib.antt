pub mod Lines
pub mod Made
pub mod Numbers
pub mod Reading
pub mod Tapes
pub mod Texts
