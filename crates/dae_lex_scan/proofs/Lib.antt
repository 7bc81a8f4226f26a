mod Places
mod Values
mod Faults
mod Units
mod Longest
mod Alone
mod Following
mod Joining
mod Cutting
mod Rising
mod InOrder
pub mod Laws
