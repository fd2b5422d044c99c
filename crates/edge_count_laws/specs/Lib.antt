pub mod Branching
pub mod Sparse
