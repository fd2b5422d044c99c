pub mod Folds
pub mod Folding
pub mod Words
pub mod Elements
pub mod Laws
