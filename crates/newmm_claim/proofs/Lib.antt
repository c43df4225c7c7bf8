pub mod Tokens
pub mod Judging
pub mod Answers
