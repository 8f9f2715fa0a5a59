pub mod Answer
pub mod Copying
pub mod Separate
pub mod Result
pub mod Cases
pub mod ApartCases
