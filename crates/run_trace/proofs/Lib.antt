mod Following
mod Boards
mod Whole
mod Starts
mod Places
