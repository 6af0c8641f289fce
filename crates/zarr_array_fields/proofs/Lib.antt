pub mod Ascending
pub mod ChunkGrids
pub mod GridSizes
pub mod Lists
pub mod Rows
