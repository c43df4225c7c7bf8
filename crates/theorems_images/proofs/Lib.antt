pub mod Numbers
pub mod Records
pub mod Reading
pub mod Back
pub mod Images
pub mod Charge
pub mod Orders
