pub mod Zeros
pub mod Firsts
pub mod Objects
pub mod Whole
pub mod Errors
