pub mod InsideArray
pub mod Extracts
pub mod Listed
pub mod Gathers
pub mod AskedPlaces
pub mod Pieces
pub mod Puts
pub mod BoxPayloads
pub mod CountAsked
pub mod FillValues
pub mod Shown
pub mod WholeWrites
pub mod BoxLines
mod GatheredStretches
pub mod PutPlaces
pub mod BoxPuts
mod PieceStretches
mod Merges
mod PiecesPut
mod MaskNumbers
