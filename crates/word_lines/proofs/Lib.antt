pub mod Digits
pub mod Taking
pub mod Lines
