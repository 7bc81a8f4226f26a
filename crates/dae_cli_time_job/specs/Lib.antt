pub mod Lines
pub mod Driving
pub mod Due
