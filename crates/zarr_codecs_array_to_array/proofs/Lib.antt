pub mod Routes
pub mod ReadsBack
pub mod NewSizes
pub mod Distances
pub mod Inverses
pub mod DecodedShapes
