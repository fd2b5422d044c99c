pub mod Listing
pub mod Inlined
pub mod Holding
