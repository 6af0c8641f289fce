mod GaplessAround
pub mod Chains
pub mod PartChains
pub mod Counts
pub mod ArrayCodecs
pub mod AllArrayCodecs
pub mod Telling
pub mod Taken
pub mod WritingAfter
pub mod Compacting
pub mod Copied
pub mod Picked
pub mod BoxParts
pub mod BoxWrites
pub mod Kept
pub mod Left
pub mod MovedNumbers
pub mod MovedBoxes
mod CutInside
mod CutBefore
