pub mod Adding
pub mod Contents
pub mod Drafts
pub mod Filled
pub mod KeepsLimits
pub mod Kinds
pub mod Limits
pub mod Of
