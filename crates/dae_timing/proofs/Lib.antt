mod Running
mod Counting
mod Rows
mod Pacing
mod Rising
mod Kept
mod Slots
mod Whole
mod Apart
mod Once
pub mod LawsOfTicks
