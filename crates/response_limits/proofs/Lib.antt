pub mod Sums
pub mod Signed
pub mod Crossed
pub mod Edges
pub mod Samples
pub mod Judging
pub mod Contained
