pub mod Accepting
pub mod Holding
pub mod Replays
pub mod Writing
pub mod Spending
