pub mod Calls
pub mod Functions
pub mod Lists
pub mod Nested
pub mod Onto
pub mod Shared
pub mod Sizes
pub mod Upto
