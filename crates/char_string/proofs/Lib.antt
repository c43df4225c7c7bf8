pub mod Pairs
pub mod Views
