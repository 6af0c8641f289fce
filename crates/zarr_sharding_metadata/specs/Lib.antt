pub mod Metadata
pub mod WorkedMetadata
pub mod Nesting
pub mod Laws
