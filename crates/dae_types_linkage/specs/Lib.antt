pub mod Contexts
pub mod Headers
pub mod Numbering
pub mod Rooms
