pub mod Files
pub mod Formats
pub mod Initialisers
pub mod Naming
pub mod Promise
pub mod Statements
