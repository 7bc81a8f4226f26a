mod Hex
mod Spellings
mod Options
mod Lists
mod Budgets
mod Bytes
mod Keys
mod Tests
mod Sums
pub mod Laws
