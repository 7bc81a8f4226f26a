pub mod Ranges
pub mod Contents
pub mod Spelling
pub mod Reading
pub mod Images
pub mod FieldNames
