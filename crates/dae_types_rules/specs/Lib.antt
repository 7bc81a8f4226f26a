pub mod Sites
pub mod Table
pub mod Plan
pub mod Settled
