pub mod Line
pub mod Small
pub mod RunText
pub mod Reading
pub mod Writing
pub mod Laws
