pub mod Equations
pub mod Above
pub mod Copies
pub mod Sums
pub mod SelfSets
pub mod Commoned
pub mod Forms
pub mod Laws
