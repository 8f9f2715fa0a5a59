pub mod MergeRadius
