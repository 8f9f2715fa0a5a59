pub mod FrameWriter
pub mod Internal
