mod Sums
mod Steps
mod Ends
