mod Numbers
mod LawfulScope
mod LawfulPlaced
mod LawfulPrograms
mod Above
mod AboveExpressions
mod Order
mod Ends
mod Straying
mod SetFirstExamples
mod LawfulExamples
mod CaseExamples
pub mod LawsOfTrees
