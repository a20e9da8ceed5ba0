pub mod Integer
pub mod Natural
