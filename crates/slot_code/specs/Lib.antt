pub mod Slots
pub mod Values
pub mod Statements
pub mod Programs
pub mod Machine
