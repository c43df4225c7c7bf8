pub mod LongWords
pub mod Reading
pub mod Changing
pub mod Freshness
pub mod One
