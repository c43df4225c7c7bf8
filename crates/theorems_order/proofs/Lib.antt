pub mod Edits
pub mod Alike
pub mod Order
