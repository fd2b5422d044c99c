pub mod Measures
pub mod Casing
pub mod Marked
pub mod Seen
pub mod Aiming
pub mod Joints
pub mod Finding
