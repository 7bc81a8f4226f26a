pub mod Tokens
pub mod Scanning
pub mod Targets
pub mod Names
pub mod Items
pub mod Reading
pub mod Filling
pub mod Lines
