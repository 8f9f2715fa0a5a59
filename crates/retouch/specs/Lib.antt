pub mod Retouch
pub mod Promise
pub mod Internal
