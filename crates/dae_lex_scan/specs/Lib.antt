pub mod Cuts
pub mod Lone
pub mod ReadLines
