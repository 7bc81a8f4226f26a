mod Made
mod Printed
mod Rows
