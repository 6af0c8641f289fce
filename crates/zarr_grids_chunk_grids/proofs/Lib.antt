pub mod ByEdges
pub mod Causes
pub mod Made
pub mod PositiveShapes
pub mod Walking
