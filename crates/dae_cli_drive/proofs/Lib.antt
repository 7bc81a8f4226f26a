mod Puts
mod Printed
mod Budgeted
mod OnTheWay
mod Outcome
mod Executed
mod OneAnswer
pub mod LawsOfTurns
pub mod Laws
mod Longest
mod NoImage
mod Limits
mod Seen
mod Contents
mod Kept
pub mod LawsOfFiles
