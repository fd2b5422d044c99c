pub mod Boards
pub mod Seen
