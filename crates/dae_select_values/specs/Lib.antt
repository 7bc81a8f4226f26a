pub mod Sides
pub mod Tables
pub mod Fronts
pub mod Jumps
