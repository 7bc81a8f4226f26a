pub mod Data
pub mod Bounds
pub mod Parts
pub mod Walking
