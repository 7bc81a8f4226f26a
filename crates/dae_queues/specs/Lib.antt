pub mod Lists
pub mod Numbers
pub mod Rings
pub mod Fifos
