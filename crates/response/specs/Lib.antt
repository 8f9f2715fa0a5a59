pub mod Internal
pub mod Response
pub mod Patch
pub mod Exact
pub mod OnePass
