pub mod Stream
pub mod Answer
pub mod Wanted
pub mod RoundTrip
pub mod Internal
