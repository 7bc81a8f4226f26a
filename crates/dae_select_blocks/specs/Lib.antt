pub mod Sizes
pub mod Blocks
pub mod Fits
pub mod Code
pub mod Wanted
pub mod Laws
