pub mod Laying
pub mod Lines
pub mod Sizes
