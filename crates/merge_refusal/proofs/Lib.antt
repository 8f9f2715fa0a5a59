pub mod Judged
pub mod Asked
