pub mod Bytes
mod Filled
pub mod Judgement
mod Answers
pub mod Accepting
pub mod Callers
mod Examples
