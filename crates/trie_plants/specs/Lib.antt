pub mod Halves
pub mod Rules
pub mod Meaning
