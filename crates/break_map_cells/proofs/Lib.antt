pub mod Setting
pub mod Reading
