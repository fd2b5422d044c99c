pub mod Gathering
pub mod Accepting
pub mod Finding
