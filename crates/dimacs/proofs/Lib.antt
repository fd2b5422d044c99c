pub mod Refutes
mod Counting
