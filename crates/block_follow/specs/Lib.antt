pub mod Following
pub mod Made
