pub mod Growing
pub mod Grown
pub mod Counting
pub mod Walking
pub mod Taken
