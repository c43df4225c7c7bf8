-- Words of inner contracts. No public contract needs them.
pub mod Adding
pub mod Taking
pub mod Resetting
