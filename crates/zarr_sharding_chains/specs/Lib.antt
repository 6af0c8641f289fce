pub mod Builders
pub mod Reshapes
pub mod Views
pub mod ArrayChains
pub mod Metadata
pub mod Refusals
pub mod Pieces
