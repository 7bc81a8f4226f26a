mod Holding
pub mod Laws
mod NamesShown
mod Reaching
