pub mod MergeNaive
pub mod Case
