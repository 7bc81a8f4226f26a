pub mod Bytes
pub mod Formed
pub mod Order
pub mod Sizes
pub mod Code
