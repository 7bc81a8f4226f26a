mod Collected
mod Cut
pub mod Laws
