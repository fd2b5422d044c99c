mod Lists
mod Sites
mod Texts
