pub mod Asked
pub mod Values
pub mod Parts
pub mod Words
