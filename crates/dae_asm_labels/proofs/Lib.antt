mod Filled
mod Tested
