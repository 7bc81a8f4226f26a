mod Words
mod Steps
mod Listed
mod Found
mod Read
mod Lines
mod Counted
mod Filled
pub mod Laws
