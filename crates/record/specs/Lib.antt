pub mod Filing
pub mod Findings
pub mod Opened
