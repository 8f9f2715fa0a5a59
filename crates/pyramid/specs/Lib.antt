pub mod Pyramid
pub mod Build
pub mod Level
pub mod Internal
