pub mod Checks
pub mod Views
pub mod Plain
pub mod Cuts
pub mod Told
