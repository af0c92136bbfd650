pub mod Image
pub mod Items
pub mod Reading
pub mod Sizes
pub mod Writing
