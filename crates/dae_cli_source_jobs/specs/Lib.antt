pub mod Fetching
pub mod Sources
pub mod Kept
pub mod Reporting
pub mod Numbers
pub mod Refusals
