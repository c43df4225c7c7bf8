pub mod Clearing
pub mod Building
pub mod Replacing
