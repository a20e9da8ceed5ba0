pub mod Counted
pub mod CountingMeaning
