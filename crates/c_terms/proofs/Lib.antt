pub mod Putting
pub mod Slots
pub mod Finding
pub mod Choosing
