mod Stepping
mod Fronts
mod Spelling
mod Choices
mod Commands
mod Asking
pub mod Laws
