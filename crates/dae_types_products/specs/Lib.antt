pub mod Products
pub mod Functions
