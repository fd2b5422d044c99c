pub mod Trail
pub mod Covers
pub mod Solve
pub mod Cuts
