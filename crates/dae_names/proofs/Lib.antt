pub mod Rows
mod Indexed
