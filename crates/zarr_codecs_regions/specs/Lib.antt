pub mod Asking
pub mod Pieces
pub mod Updates
pub mod Filling
pub mod Whole
pub mod BoxLines
pub mod Taken
