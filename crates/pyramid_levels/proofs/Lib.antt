pub mod Sides
pub mod Cells
pub mod Refusals
pub mod Answers
