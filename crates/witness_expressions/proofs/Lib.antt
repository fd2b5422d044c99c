mod Rows
mod Weights
mod Sized
mod Steps
mod Shapes
