pub mod Texts
pub mod Low
