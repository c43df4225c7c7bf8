pub mod Told
pub mod Answers
pub mod Calls
pub mod inner
