pub mod Answers
pub mod Leaving
