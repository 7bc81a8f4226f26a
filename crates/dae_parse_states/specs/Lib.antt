pub mod Fronts
pub mod Kept
pub mod Frames
pub mod States
pub mod Bottom
