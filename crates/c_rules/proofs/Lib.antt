mod Bounds
mod Arms
mod Examining
