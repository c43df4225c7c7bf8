pub mod Small
pub mod OneEdge
pub mod Rounds
pub mod Tokens
pub mod Candidates
pub mod Bounds
pub mod Whole
