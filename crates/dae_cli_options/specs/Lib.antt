pub mod Ranges
pub mod Names
pub mod Options
pub mod Spelling
