pub mod Proofs
pub mod Answered
