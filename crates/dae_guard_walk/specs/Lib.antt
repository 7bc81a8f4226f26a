pub mod Kinds
pub mod Spots
pub mod Steps
pub mod Picks
pub mod Answers
pub mod Visits
