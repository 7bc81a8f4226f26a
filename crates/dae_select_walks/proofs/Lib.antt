mod Memory
mod Composed
mod Steps
mod Lives
mod Paths
mod SetBefore
mod Residents
mod Words
mod Facts
pub mod LawsOfWalks
mod Going
mod Tested
