mod ByKind
mod TypesFound
mod Stacks
mod LeftBehind
pub mod Laws
