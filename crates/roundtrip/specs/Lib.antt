pub mod Compared
pub mod Laws
pub mod Rebuilt
