pub mod Filing
pub mod Listings
pub mod Replaying
pub mod Reruns
