mod Running
mod Elides
mod Lasting
mod Programs
mod Walked
mod Unchecked
mod Paired
