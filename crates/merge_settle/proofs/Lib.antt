pub mod First
pub mod Slots
pub mod Indexing
pub mod Nearby
pub mod Settle
pub mod Stepping
