pub mod Rows
pub mod Joining
pub mod Filling
pub mod Outcomes
pub mod Runs
