pub mod Lengths
pub mod Blocks
pub mod Overlays
pub mod Steps
pub mod Fills
