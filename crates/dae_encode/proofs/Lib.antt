mod Fields
mod Spelled
mod Words
mod Listed
mod Legal
mod Own
pub mod Laws
