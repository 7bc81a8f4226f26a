pub mod Accesses
pub mod Compiled
pub mod Images
pub mod Sizes
pub mod Generated
pub mod Passes
