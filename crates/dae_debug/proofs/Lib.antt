mod Flags
mod Halts
mod Held
mod Turned
mod Listed
mod Stepping
mod Totals
mod Single
pub mod LawsOfSessions
