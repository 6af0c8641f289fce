pub mod Arrays
pub mod Calls
pub mod ChunkKeys
pub mod Creations
pub mod Reopenings
pub mod Sessions
