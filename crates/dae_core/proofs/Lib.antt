mod QueueLaws
pub mod Laws
mod Fetches
mod Commits
mod Fillings
mod Answers
