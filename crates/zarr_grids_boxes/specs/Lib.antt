pub mod Boxes
pub mod Cuts
pub mod Laid
pub mod Laws
pub mod Subsets
pub mod Walks
