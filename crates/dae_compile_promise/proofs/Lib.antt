mod Main
mod Chain
mod Later
pub mod Laws
