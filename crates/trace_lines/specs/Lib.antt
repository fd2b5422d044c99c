pub mod Excerpts
pub mod Pairing
pub mod Scenes
pub mod Events
pub mod Endings
