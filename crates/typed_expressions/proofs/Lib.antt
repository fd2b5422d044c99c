mod Matching
mod Calling
mod Rows
mod Arms
