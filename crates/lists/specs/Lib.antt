pub mod Limits
pub mod Tab
pub mod Places
pub mod Buffer
pub mod Refusals
pub mod Internal
