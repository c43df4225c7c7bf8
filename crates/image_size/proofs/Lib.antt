pub mod Bytes
pub mod Sizing
