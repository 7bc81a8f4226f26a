mod Spelled
pub mod Laws
