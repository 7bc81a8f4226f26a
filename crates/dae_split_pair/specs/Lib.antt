pub mod Decoupled
pub mod Kinds
pub mod Tallies
pub mod Laws
