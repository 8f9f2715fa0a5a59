pub mod Judging
pub mod Removing
pub mod Calls
pub mod Cases
