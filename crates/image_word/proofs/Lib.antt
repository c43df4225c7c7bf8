pub mod Sharing
pub mod Words
