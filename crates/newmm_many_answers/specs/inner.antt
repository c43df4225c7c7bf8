-- Words of inner contracts. No public contract needs them.
pub mod Small
pub mod Whole
pub mod Singles
