pub mod Words
pub mod Workload
pub mod World
pub mod WorldScript
pub mod Parts
pub mod WorldTold
