mod Members
mod Multiples
mod Closed
mod Signed
mod Turned
pub mod Laws
