pub mod Made
pub mod Sound
pub mod Parts
pub mod Switching
pub mod Functions
pub mod Invocations
pub mod Lowered
