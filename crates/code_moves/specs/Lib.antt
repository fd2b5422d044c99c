pub mod Setting
pub mod Values
pub mod Deeds
pub mod Moves
pub mod Made
