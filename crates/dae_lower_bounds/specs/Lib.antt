pub mod Constants
pub mod Voids
pub mod Bounds
