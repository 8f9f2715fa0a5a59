pub mod Levels
pub mod Refusals
pub mod Level
pub mod Internal
