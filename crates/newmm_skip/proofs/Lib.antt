pub mod Skipping
pub mod Trying
