pub mod Seen
pub mod Found
pub mod Steps
pub mod Buckets
pub mod Reaching
pub mod Walking
pub mod Chains
pub mod Asked
