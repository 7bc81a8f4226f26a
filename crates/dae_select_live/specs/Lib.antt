pub mod Members
pub mod Before
pub mod Turns
