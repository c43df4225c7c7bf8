-- Words of inner contracts. No public contract needs them.
pub mod Moving
pub mod Planting
pub mod Plucking
