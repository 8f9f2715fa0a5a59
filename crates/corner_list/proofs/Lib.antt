pub mod Corners
pub mod Growing
pub mod Placed
pub mod Inside
