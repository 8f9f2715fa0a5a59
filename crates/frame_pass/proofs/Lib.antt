pub mod Refusals
pub mod Maps
pub mod Inside
pub mod Same
pub mod Ties
