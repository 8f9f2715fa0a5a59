pub mod Items
pub mod Records
pub mod Texts
pub mod Append
pub mod Passing
pub mod Decided
pub mod Open
pub mod Examples
