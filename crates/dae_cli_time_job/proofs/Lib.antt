mod Printing
mod OnTheWay
mod Outcome
mod Executed
mod Noted
mod Single
pub mod Laws
