mod Counted
mod Stacked
mod Sizes
mod InFront
mod Words
mod Untaken
pub mod Laws
