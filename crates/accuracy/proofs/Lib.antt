pub mod Integers
pub mod Error
pub mod Judged
pub mod Cells
