mod Counting
mod Calming
mod Nearing
mod Standing
mod Seeking
mod Programs
mod Graphs
mod Whole
