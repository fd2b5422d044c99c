pub mod Loop
pub mod Chains
