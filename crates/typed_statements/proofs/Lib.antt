pub mod Views
mod Rows
