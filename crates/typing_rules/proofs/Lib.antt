pub mod Views
pub mod Summing
mod Rows
mod Arms
mod AgainLists
