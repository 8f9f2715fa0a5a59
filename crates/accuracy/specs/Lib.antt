pub mod Accurate
