pub mod Strips
pub mod Searching
pub mod Tracing
pub mod Same
pub mod Found
