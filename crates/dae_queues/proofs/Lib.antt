mod Bytes
mod QueueLaws
mod MemoryLaws
mod CountLaws
mod FillLaws
mod DrainLaws
mod Places
mod Fills
mod ListLaws
pub mod LawsOfLists
mod Filled
