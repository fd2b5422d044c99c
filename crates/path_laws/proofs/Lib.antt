pub mod Spelling
pub mod Needing
pub mod Adding
pub mod Stepping
pub mod Sharing
pub mod Meeting
pub mod Running
pub mod Reading
