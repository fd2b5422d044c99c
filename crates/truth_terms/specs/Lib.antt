pub mod Truths
pub mod Made
