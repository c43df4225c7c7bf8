pub mod Order
pub mod Among
pub mod Listed
pub mod Lists
pub mod One
pub mod Under
