pub mod Longest
pub mod Samples
pub mod Behind
pub mod Rounds
pub mod Modes
