pub mod Naive
pub mod Case
