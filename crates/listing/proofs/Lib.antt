pub mod Numbers
pub mod Appending
pub mod Nearest
pub mod Lines
pub mod Texts
pub mod Case
