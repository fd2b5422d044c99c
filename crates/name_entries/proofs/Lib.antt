mod Rows
mod Placing
