pub mod Renaming
pub mod Made
