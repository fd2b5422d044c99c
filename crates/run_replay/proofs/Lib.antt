mod Orders
mod Whole
