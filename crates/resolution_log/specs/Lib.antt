pub mod Chains
pub mod Propagation
pub mod Logs
pub mod Verdict
pub mod Codes
pub mod Marks
pub mod Cones
pub mod Laws
