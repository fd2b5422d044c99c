mod Views
mod Rows
mod Firsts
mod Chaining
mod Joining
mod Walks
