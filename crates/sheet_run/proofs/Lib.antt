pub mod Classless
pub mod Counting
pub mod ByWords
pub mod Telling
pub mod Turning
