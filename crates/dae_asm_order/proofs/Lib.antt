mod Split
mod Places
mod Numbered
mod Walked
pub mod Laws
