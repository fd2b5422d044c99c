pub mod Truth
pub mod Pairing
pub mod Turning
pub mod Putting
pub mod Marking
