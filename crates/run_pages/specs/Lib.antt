pub mod Changes
pub mod Commands
pub mod Dumps
pub mod Faults
pub mod Runs
pub mod Steps
