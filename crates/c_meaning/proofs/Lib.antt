mod Drawn
mod Endings
mod Faults
pub mod Induction
pub mod Runs
