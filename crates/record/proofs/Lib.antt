pub mod Agreeing
pub mod Hearing
pub mod Shorter
