mod Rows
mod Table
