pub mod Views
mod Walking
mod Arms
mod Rows
mod Naming
