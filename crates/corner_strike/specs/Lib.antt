pub mod Editions
pub mod Showing
pub mod Striking
