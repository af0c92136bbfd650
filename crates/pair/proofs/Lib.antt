pub mod Exact
pub mod Requests
