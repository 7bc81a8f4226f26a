pub mod Costs
pub mod Clocks
pub mod Ticks
pub mod Held
pub mod Runs
