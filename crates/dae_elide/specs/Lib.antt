pub mod LikeSteps
pub mod Checking
pub mod Elided
pub mod Forms
pub mod Walked
