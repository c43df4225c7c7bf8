pub mod Table
pub mod Rows
pub mod Scans
pub mod Ranges
pub mod Parts
