pub mod First
pub mod Found
pub mod Made
pub mod Ranges
pub mod Same
pub mod Tapes
