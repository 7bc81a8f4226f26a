mod OfNumber
mod OnWay
mod Stopped
pub mod Laws
