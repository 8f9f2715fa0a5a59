pub mod Ring
pub mod Offsets
