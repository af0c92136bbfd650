pub mod Banks
pub mod Fed
pub mod Made
pub mod Played
pub mod Plays
pub mod Said
pub mod Steps
