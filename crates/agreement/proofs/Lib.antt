pub mod Threshold
pub mod Place
pub mod Lists
pub mod Slack
pub mod Between
pub mod Exactly
