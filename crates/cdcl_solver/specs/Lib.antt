pub mod Stops
pub mod Learning
pub mod Joining
pub mod Opening
pub mod Search
pub mod Pacing
