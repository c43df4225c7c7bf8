pub mod Readings
pub mod Placing
