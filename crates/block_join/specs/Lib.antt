pub mod Joined
pub mod Living
pub mod Made
