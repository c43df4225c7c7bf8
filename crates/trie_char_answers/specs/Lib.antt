pub mod Refusals
pub mod Changes
pub mod Answers
