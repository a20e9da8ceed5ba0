pub mod Caps
pub mod Folds
pub mod Round
pub mod Signs
