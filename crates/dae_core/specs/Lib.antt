pub mod Moves
pub mod Queues
pub mod Held
pub mod Codes
