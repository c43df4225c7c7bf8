pub mod Cells
pub mod Edging
pub mod Looping
