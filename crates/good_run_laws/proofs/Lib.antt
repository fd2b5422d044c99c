mod Leaving
mod Bodies
mod Calls
