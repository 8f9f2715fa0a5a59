pub mod SurePeak
pub mod Promise
pub mod Internal
