pub mod Growing
pub mod Leaving
pub mod Straight
pub mod Beginning
pub mod Same
mod Deciding
