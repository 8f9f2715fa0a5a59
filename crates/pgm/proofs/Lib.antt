pub mod Characters
pub mod Scanning
pub mod Numbers
pub mod Fields
pub mod Judging
pub mod Behind
