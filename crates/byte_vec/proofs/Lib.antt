pub mod Filling
pub mod Room
