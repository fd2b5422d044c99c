mod Views
mod Rows
mod Arms
