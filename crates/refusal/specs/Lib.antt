pub mod Numbers
pub mod Limits
pub mod Answers
pub mod Firsts
