pub mod Parsed
pub mod Reached
pub mod Seldom
