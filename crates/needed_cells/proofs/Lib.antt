pub mod Agreeing
pub mod Operations
pub mod Paths
