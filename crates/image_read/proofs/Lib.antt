pub mod Raising
pub mod Readings
pub mod Surveying
pub mod Turns
