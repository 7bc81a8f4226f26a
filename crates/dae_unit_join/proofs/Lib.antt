mod Among
mod Places
mod Layouts
mod Parameters
mod Rows
mod Ones
mod Placed
mod Numbers
mod Bodies
mod Links
mod Rooms
mod Content
mod Causes
mod Uses
mod Room
mod Calls
mod Sound
mod Counts
pub mod Whole
pub mod Behind
mod Counted
mod Examples
mod Small
