pub mod Covering
pub mod Made
