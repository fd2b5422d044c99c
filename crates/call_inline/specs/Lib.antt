pub mod Copying
pub mod Inlined
pub mod Inlining
pub mod Layout
pub mod Sizes
