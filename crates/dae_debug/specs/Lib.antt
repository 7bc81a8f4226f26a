pub mod Breaks
pub mod Texts
pub mod Sessions
pub mod Scripts
