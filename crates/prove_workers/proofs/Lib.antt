pub mod Seating
pub mod Placing
