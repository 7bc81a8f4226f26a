pub mod Threaded
pub mod Forms
pub mod Laws
pub mod Walked
