pub mod Merge
pub mod Table
pub mod Apart
