pub mod Stores
pub mod Appended
