pub mod Peaks
pub mod Fifths
pub mod Detect
pub mod Exact
pub mod Enough
pub mod Internal
