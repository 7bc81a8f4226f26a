mod Parts
mod Spellings
mod Texts
mod Making
mod Once
pub mod LawsOfTexts
