pub mod Tracing
pub mod Checking
