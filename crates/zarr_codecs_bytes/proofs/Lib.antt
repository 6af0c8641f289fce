pub mod Orders
pub mod Types
pub mod Decoding
pub mod PartDecoding
pub mod BoxElements
pub mod BoxRanges
pub mod PartReading
pub mod PartWriting
pub mod Scattered
pub mod BoxScattered
pub mod Encoding
mod ListedParts
mod PartBytes
pub mod ElementWrites
pub mod ElementsPut
pub mod AskedRanges
mod Unstored
mod ToldSizes
