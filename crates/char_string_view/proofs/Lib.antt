pub mod Held
pub mod Shows
