pub mod Building
pub mod Paths
pub mod Leaf
pub mod Mark
pub mod Whole
pub mod Start
