mod Counting
mod Chains
mod Nodes
mod Otherwise
pub mod Laws
