pub mod Current
pub mod Renamed
pub mod Known
pub mod Planned
pub mod Forms
pub mod Laws
