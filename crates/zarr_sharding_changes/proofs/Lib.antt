pub mod Subchunks
pub mod Appending
pub mod Overlays
pub mod Slices
pub mod Compacting
pub mod Compactions
pub mod Gapless
mod HeldShards
mod WorkedGapless
