pub mod Standard
pub mod Encoding
pub mod Positions
