pub mod Limits
pub mod Lines
pub mod Meaning
pub mod Planned
pub mod Requests
pub mod Rows
pub mod Slots
