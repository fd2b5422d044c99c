pub mod Words
pub mod Meeting
