pub mod Patterns
pub mod Rules
pub mod Clusters
pub mod Rising
pub mod Numbers
pub mod inner
