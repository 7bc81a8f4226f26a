mod Said
pub mod Laws
