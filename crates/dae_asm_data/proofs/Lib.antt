mod Leading
mod Bytes
mod Marking
mod Naming
pub mod Laws
