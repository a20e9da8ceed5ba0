pub mod Permits
pub mod Replies
pub mod Runs
