pub mod Sums
pub mod Parts
pub mod Entries
mod Texts
