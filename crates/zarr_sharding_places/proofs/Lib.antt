pub mod Placing
pub mod PutPlaces
pub mod PartPlaces
pub mod ReadPieces
pub mod LocatedPlaces
pub mod ListedAxes
pub mod Stable
pub mod BoxPuts
