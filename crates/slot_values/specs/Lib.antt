pub mod Linked
pub mod Ends
pub mod Seen
