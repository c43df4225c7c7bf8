pub mod Asking
pub mod Replying
pub mod Answering
pub mod Long
