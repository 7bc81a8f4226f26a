mod Listed
mod Spared
