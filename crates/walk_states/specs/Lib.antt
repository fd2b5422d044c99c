pub mod Known
pub mod Walks
pub mod Told
pub mod Made
