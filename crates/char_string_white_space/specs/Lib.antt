pub mod Trimmed
pub mod WhiteSpace
