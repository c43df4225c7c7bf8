pub mod FirstBytes
pub mod Sizes
pub mod Quick
pub mod Pieces
