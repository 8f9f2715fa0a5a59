pub mod Signed
pub mod WindowRows
pub mod Judging
pub mod Peak
pub mod Exact
