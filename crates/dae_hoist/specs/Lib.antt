pub mod Hoisted
pub mod Kept
pub mod Planned
pub mod Forms
pub mod Laws
