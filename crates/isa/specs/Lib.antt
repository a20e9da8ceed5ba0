pub mod Command
pub mod Fields
pub mod Operands
pub mod Ranges
pub mod Table
