pub mod Steps
pub mod Banks
pub mod Run
pub mod Examples
