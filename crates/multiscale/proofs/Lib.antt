pub mod Contexts
pub mod Axis
pub mod Promised
pub mod Box
pub mod Centre
pub mod Told
