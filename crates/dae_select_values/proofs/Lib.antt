mod Powers
mod Distances
