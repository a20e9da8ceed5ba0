pub mod Appends
pub mod Pushes
pub mod TapeFirsts
pub mod Transcripts
