mod Printing
mod Good
mod Makes
mod Expressions
mod Pieces
mod Switching
mod Statements
mod Below
mod Functions
mod Programs
mod Named
mod Order
mod Agreeing
mod Small
mod SmallStatements
mod Counts
mod Examples
pub mod Laws
