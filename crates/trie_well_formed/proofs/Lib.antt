pub mod Passing
pub mod Whole
pub mod Zeros
