pub mod Holding
pub mod Photo
pub mod Writing
