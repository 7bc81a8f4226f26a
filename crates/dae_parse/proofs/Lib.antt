mod Bottoms
mod Reaching
mod Others
mod Popped
mod Doings
mod Files
mod Stuck
mod Seldom
