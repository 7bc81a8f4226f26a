mod Rows
pub mod Laws
mod Reserving
mod Loops
mod Firsts
mod Arguments
mod Searching
mod Parted
mod Turns
mod Closing
mod Wholes
mod Sound
mod Lists
mod Room
