pub mod Latest
pub mod Entries
