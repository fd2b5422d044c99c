pub mod Keeping
pub mod Coming
pub mod Marking
pub mod Joining
