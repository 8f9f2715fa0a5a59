pub mod Multiples
pub mod Distance
pub mod Cell
pub mod Least
pub mod Lists
pub mod Alike
