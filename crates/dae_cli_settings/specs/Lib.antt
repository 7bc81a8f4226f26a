pub mod Settings
pub mod Commands
