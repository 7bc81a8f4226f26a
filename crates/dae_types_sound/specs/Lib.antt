pub mod Declarations
pub mod Distinct
pub mod Fit
pub mod Names
pub mod Shapes
pub mod Used
