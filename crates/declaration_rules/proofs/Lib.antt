mod KindRows
mod Rows
mod Twins
mod Pasts
mod Agreeing
mod Telling
