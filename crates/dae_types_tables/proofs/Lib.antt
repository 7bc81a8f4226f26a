mod Answering
mod Naming
mod Wrapping
