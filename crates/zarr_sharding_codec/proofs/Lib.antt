pub mod Configured
pub mod NumberedParts
pub mod PartShapes
pub mod FitParts
pub mod TakenStretches
pub mod StoredParts
pub mod StoredLoop
pub mod Gapless
pub mod EncodedShard
pub mod DecodedShard
pub mod ClosedValues
pub mod LocatedParts
pub mod AllThere
pub mod PlaceCells
pub mod GroupsRead
pub mod ShardBounds
pub mod PartsRead
pub mod SubchunkRead
pub mod SoFarRead
pub mod ShardSizes
pub mod WholeRead
pub mod PutPieces
pub mod PartShown
pub mod ChangedPairs
pub mod PartHolds
pub mod PartIntact
pub mod MetParts
pub mod MostTaken
pub mod GroupWritten
pub mod SoFarWritten
pub mod PartFill
pub mod PartStands
pub mod PartKept
pub mod PartPlaced
pub mod PartAfter
pub mod AppendedShard
pub mod PartWritten
pub mod Appended
pub mod PartLength
pub mod PartAppended
pub mod GivenSoFar
pub mod WholeSubchunk
pub mod BoxInSubchunk
pub mod WholeBox
pub mod MetBox
pub mod NumberedSubchunks
pub mod BoxCuts
pub mod BoxRead
pub mod BoxWritten
pub mod AsIs
mod MadePieces
mod PutSlices
mod PartFound
mod SlicesRead
mod PlacesCut
mod GivenCuts
mod CutValues
mod CutArrays
mod DecodedSlice
mod CutPart
