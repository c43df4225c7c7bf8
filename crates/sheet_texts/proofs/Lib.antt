pub mod Decimals
pub mod Holding
pub mod Spacing
