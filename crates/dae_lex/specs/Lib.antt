pub mod Numbers
pub mod Settling
pub mod Pending
pub mod Rows
pub mod Finishing
pub mod Whole
