pub mod Reading
mod Steps
