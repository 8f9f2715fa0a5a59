pub mod Turns
pub mod Slice
pub mod Core
