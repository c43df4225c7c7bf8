pub mod Standard
pub mod Positions
