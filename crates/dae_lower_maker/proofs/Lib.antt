mod Rows
mod Counts
pub mod Laws
