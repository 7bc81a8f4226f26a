mod Numbers
mod Fitting
mod Small
pub mod Steps
mod Distinct
pub mod Noted
pub mod Whole
mod UsedNumbers
