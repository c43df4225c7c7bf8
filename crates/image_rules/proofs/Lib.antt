pub mod Order
pub mod Lists
pub mod Records
pub mod Readings
