pub mod Unique
pub mod Unread
