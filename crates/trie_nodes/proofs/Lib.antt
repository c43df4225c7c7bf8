pub mod Falls
pub mod Ors
pub mod Cells
pub mod Walks
pub mod Ends
