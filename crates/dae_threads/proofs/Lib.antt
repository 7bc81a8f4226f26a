mod Items
mod Meaning
mod Scoping
mod Ordering
mod Counts
mod Programs
mod Tried
mod Walked
mod Wholes
pub mod Laws
