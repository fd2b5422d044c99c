pub mod Fallings
pub mod Lightness
pub mod Belows
