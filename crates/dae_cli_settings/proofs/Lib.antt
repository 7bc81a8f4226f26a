mod Words
mod Rules
mod Walking
mod Tested
mod Reading
mod Building
pub mod Laws
