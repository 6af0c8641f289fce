pub mod BoxedChunks
pub mod ChunkBoxes
pub mod ChunkLaws
pub mod ChunksIntersecting
pub mod LargestEdges
pub mod NumbersInGrid
pub mod PlacesKept
