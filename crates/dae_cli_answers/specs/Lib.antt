pub mod One
pub mod Promises
pub mod TimedPromises
