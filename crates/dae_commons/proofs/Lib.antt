pub mod Values
mod Words
pub mod Lists
pub mod Uninvolved
pub mod Sparing
pub mod Truth
pub mod Meaning
pub mod Accesses
pub mod Names
pub mod Scoping
pub mod Ordering
pub mod Counts
pub mod Programs
pub mod Steps
mod Nothing
pub mod Wholes
