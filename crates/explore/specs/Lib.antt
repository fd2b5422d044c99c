pub mod Standing
pub mod Settling
pub mod Ends
pub mod Open
