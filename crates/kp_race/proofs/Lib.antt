mod Pieces
mod Longest
mod Counts
mod Acked
