pub mod Linked
pub mod Marked
pub mod Settled
pub mod Placed
pub mod Sides
pub mod Sizes
pub mod Residents
pub mod LeafCodes
