pub mod Same
pub mod Written
