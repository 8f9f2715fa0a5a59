pub mod Finder
pub mod Internal
