pub mod Deeds
pub mod Plans
pub mod Tests
pub mod Rule
pub mod Blocked
