mod Boxes
mod Writes
mod Calls
mod Compactions
mod Rewrites
mod ReadCounts
