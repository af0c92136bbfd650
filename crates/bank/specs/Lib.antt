pub mod Exact
pub mod Limits
pub mod Lists
pub mod Meaning
pub mod Questions
