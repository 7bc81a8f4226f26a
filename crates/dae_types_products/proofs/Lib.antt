mod Slots
mod Lists
