mod Descending
mod Settings
mod Shapes
mod Stacks
