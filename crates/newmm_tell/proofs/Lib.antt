pub mod Telling
pub mod Rows
pub mod Parts
