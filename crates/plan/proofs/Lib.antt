pub mod Adding
pub mod ByKind
pub mod Filling
pub mod Grid
pub mod KeepsLimits
pub mod Lawful
pub mod Rows
pub mod Same
