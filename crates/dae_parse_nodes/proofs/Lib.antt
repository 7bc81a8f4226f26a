mod Listing
mod Declaring
mod Specifying
mod Making
mod Blocks
mod Operands
pub mod Laws
