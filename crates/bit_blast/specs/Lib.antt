pub mod Done
pub mod Places
pub mod Cone
pub mod Gates
pub mod Emission
pub mod Held
