pub mod Halving
pub mod Nearing
pub mod Finding
