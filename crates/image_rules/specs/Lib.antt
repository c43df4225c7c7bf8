pub mod Records
pub mod Order
pub mod Lists
pub mod Reading
pub mod inner
