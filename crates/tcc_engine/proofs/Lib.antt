pub mod Classes
pub mod Items
pub mod Groups
pub mod Reading
pub mod Finding
pub mod Telling
