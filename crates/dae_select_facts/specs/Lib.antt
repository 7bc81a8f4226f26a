pub mod Knowns
pub mod Along
pub mod Turns
