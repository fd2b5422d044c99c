pub mod Coming
pub mod Away
pub mod Here
pub mod Turns
pub mod Codes
pub mod Runs
