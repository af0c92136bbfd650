pub mod Answering
pub mod Beginning
pub mod Checking
pub mod Finishing
pub mod Making
pub mod Same
pub mod Tasks
pub mod Running
