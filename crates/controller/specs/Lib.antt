pub mod Banks
pub mod Calls
pub mod Checks
pub mod Issues
pub mod Limits
pub mod Of
pub mod Ticks
