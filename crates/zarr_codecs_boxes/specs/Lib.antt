pub mod Regions
pub mod Updates
pub mod Laws
pub mod WorkedRegions
