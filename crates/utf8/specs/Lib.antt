pub mod Decoding
pub mod Positions
pub mod inner
