pub mod Limits
mod Numbers
mod Whole
