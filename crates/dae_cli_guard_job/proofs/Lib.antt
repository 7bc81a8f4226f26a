mod Single
pub mod Laws
