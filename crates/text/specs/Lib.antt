pub mod Fields
pub mod Lines
pub mod Memory
pub mod Numbers
pub mod Questions
pub mod Refusals
