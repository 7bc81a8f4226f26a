mod Comparing
mod Enclosing
mod Finding
mod Kept
mod Known
mod Outlines
mod Same
pub mod LawsOfEntities
pub mod LawsOfRows
