pub mod Views
mod Summing
mod Rows
mod Past
mod Arms
