mod Resolved
mod Walked
mod Sayings
mod Formed
mod Sizes
pub mod Laws
