pub mod Cut
pub mod Whole
