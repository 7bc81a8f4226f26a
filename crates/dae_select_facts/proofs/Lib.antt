mod Setting
mod Lists
mod Turning
mod Asked
pub mod LawsOfFacts
