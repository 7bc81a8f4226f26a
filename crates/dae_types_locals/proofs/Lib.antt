mod Lists
mod Rows
