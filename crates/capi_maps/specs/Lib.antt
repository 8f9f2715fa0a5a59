pub mod Patch
pub mod Limits
pub mod Retouching
pub mod Levels
