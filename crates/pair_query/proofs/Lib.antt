pub mod Underway
pub mod Blasting
pub mod PairCuts
pub mod Exact
