pub mod Laying
pub mod Scalars
