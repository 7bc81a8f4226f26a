mod Kept
mod Values
mod Steps
mod Plans
mod Statements
mod Files
pub mod Laws
