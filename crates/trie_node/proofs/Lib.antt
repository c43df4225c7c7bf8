pub mod Decide
pub mod Single
