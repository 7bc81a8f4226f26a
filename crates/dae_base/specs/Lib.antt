pub mod Words
pub mod Texts
pub mod Budgets
pub mod Ones
