pub mod Header
pub mod Pgm
pub mod Internal
