pub mod Branches
pub mod Made
