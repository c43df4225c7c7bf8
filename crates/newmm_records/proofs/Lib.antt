pub mod Filled
pub mod Again
pub mod Calls
