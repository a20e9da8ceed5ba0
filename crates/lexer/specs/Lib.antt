pub mod Cursor
pub mod Divided
pub mod Escape
pub mod Parts
pub mod Shown
pub mod Text
