pub mod Debugging
