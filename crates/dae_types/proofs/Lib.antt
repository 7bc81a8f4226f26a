mod Examples
mod Members
mod Reading
mod Refusals
