pub mod Answers
pub mod Flags
