mod Rising
pub mod Laws
mod Several
mod Anew
mod Breaks
pub mod Telling
