pub mod Fields
pub mod Fronts
pub mod Images
pub mod Lays
pub mod Lines
pub mod Numbers
pub mod Questions
pub mod Writes
