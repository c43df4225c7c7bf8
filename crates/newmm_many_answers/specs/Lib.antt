pub mod Texts
pub mod Turns
pub mod Singles
pub mod Calls
pub mod inner
