pub mod Bits
pub mod Breaks
pub mod Cells
pub mod Ends
pub mod Maps
