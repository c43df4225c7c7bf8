pub mod Walking
pub mod Prefixes
