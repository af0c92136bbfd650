pub mod Answers
pub mod Laid
pub mod Lines
