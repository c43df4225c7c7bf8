pub mod Cells
pub mod Counting
