pub mod Refusals
pub mod Pass
pub mod Theorems
