pub mod Joining
pub mod Links
pub mod Made
