pub mod Digits
pub mod Numbers
pub mod Pieces
pub mod Walking
