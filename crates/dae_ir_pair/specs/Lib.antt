pub mod Laws
pub mod Budget
pub mod Sizes
pub mod SetFirst
pub mod Programs
