pub mod Lengths
pub mod Halving
pub mod Above
pub mod Building
pub mod Lookup
pub mod Levels
