pub mod Merging
pub mod Table
pub mod Apart
pub mod Naive
pub mod Showing
pub mod Striking
