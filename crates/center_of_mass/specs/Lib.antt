pub mod CenterOfMass
pub mod Promise
