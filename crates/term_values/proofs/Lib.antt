pub mod Lacking
pub mod Placing
pub mod Waiting
pub mod Reading
