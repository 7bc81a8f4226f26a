pub mod Instructions
pub mod Spelling
pub mod Decoding
pub mod Uses
pub mod Processor
