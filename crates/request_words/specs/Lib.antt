pub mod Apps
pub mod Asked
pub mod Options
pub mod Replays
pub mod Texts
pub mod Values
pub mod Views
pub mod Words
