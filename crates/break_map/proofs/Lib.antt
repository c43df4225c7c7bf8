pub mod Ends
pub mod Checks
