pub mod Contents
pub mod Judge
pub mod Watching
pub mod Kept
pub mod Passing
