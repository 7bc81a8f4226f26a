pub mod Layouts
pub mod Makings
pub mod Passing
