pub mod Follows
pub mod Spots
pub mod Sides
pub mod Order
pub mod Promises
