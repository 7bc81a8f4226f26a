mod Steps
mod Parameters
