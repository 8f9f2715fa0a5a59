pub mod Internal
pub mod Retention
pub mod Stream
pub mod Wanted
pub mod Answer
