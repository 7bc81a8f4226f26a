mod Spelled
mod Lines
mod Parts
