pub mod Figures
pub mod Outcomes
pub mod Runs
