pub mod Built
pub mod Source
pub mod Standing
