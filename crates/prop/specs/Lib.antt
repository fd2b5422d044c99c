pub mod Logic
pub mod Pieces
pub mod Trues
pub mod Steps
