pub mod Means
pub mod Cell
pub mod Mean
pub mod Tolerance
