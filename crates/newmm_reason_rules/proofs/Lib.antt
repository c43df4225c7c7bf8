pub mod Firsts
pub mod Reasons
pub mod Why
pub mod Numbers
