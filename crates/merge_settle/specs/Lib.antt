pub mod Settle
pub mod Internal
