mod Asking
mod Settling
pub mod Laws
