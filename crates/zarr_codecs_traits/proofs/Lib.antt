mod PartLemmas
pub mod PartValues
mod Intervals
pub mod Refusals
pub mod Damage
pub mod WrittenWhole
mod WorkedWrites
pub mod CountedReads
