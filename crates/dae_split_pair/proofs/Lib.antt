pub mod Rest
pub mod Nested
mod Totals
mod Found
mod Ordered
pub mod LawsOfBudgets
