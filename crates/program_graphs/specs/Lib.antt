pub mod Standing
pub mod Returning
pub mod Weighing
