pub mod Views
pub mod Bools
pub mod Sets
mod Arms
mod Summing
