pub mod Adjusting
pub mod Scopes
