pub mod Occurring
pub mod Reading
pub mod Linking
pub mod Copying
pub mod Names
pub mod Needs
pub mod Naming
pub mod Descending
