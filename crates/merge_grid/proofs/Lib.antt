pub mod Joined
pub mod Cells
