pub mod Assembly
pub mod Making
