pub mod Clusters
pub mod Firsts
pub mod Issued
pub mod Nearest
pub mod Ranks
pub mod Rows
pub mod Selected
