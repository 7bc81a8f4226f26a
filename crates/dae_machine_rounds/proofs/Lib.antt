mod Does
mod Both
mod Slots
mod Worlds
mod Sends
mod Failures
mod Final
mod PartsA
mod PartsE
mod Tails
mod Play
mod Landing
mod Groups
mod Control
pub mod Laws
mod Turned
mod Stretches
mod Sided
mod RegionsA
mod RegionsE
mod RegionEnds
mod RegionRounds
mod Regions
mod Calls
mod Whole
mod Forms
mod Example
pub mod LawsOfRuns
