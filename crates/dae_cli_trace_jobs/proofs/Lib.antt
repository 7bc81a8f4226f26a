mod Traced
mod Checked
mod Single
pub mod Laws
