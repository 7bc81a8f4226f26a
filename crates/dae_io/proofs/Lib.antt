mod Held
mod NoFields
pub mod Growth
pub mod Laws
