pub mod Halves
pub mod Planted
pub mod Plucked
pub mod Leaf
pub mod Keep
pub mod Gone
