pub mod DoneLemmas
pub mod ConeLemmas
pub mod Lengths
pub mod Ready
pub mod Cones
pub mod Steps
pub mod Over
pub mod Flat
