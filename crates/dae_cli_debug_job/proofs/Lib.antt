mod Served
mod Single
pub mod Laws
