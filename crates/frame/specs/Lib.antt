pub mod Internal
pub mod Frame
