pub mod Sides
pub mod Mark
pub mod Adding
pub mod Taking
pub mod Cleared
