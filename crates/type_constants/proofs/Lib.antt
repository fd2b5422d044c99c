mod Views
mod Values
