pub mod Tests
pub mod Cursors
pub mod Made
