pub mod OneMap
pub mod MapCorners
pub mod Internal
