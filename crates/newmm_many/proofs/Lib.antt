pub mod Turned
pub mod Pools
