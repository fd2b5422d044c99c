mod Agreeing
mod Values
mod Bodies
pub mod Numbers
pub mod Tokens
pub mod Entries
mod Plain
mod Words
pub mod Spans
mod Rights
mod Calls
mod Owned
mod Whole
