pub mod MergeSlice
