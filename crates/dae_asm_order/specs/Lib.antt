pub mod Sheets
pub mod Walking
pub mod Order
