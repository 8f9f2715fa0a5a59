pub mod Multiscale
pub mod Promise
pub mod Internal
