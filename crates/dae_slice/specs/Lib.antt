pub mod SourceLists
pub mod Graphs
pub mod Links
