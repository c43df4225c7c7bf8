pub mod Beginning
pub mod Sums
