pub mod Pieces
pub mod Trues
pub mod Sets
pub mod Sound
pub mod All
