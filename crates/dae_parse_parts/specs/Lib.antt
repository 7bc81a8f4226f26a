pub mod Shown
pub mod Scopes
pub mod ShownNames
