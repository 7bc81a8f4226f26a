mod Ordered
mod Same
mod Bytes
mod Kept
mod Outcomes
pub mod Laws
