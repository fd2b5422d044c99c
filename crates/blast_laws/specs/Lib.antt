pub mod Calls
pub mod Bounds
pub mod Laws
pub mod Reading
pub mod Drawn
