mod Calm
mod Found
