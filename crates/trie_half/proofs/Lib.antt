pub mod Passing
pub mod Unused
