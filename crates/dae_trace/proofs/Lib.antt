mod Texts
mod Naming
mod Spelled
mod Numbers
mod Runs
mod Following
pub mod LawsOfTraces
