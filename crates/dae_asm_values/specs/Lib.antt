pub mod Values
pub mod Claims
