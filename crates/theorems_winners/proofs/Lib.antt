pub mod Never
pub mod Shortened
pub mod Winners
