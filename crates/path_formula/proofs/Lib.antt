pub mod Parts
pub mod Reading
pub mod There
pub mod Backing
pub mod Adding
pub mod Drafts
pub mod Operating
pub mod Asking
