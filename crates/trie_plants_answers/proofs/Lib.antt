pub mod Became
pub mod Changing
pub mod Starting
pub mod One
