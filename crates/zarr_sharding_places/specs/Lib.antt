pub mod Placed
pub mod Pieces
pub mod Locating
pub mod Groups
pub mod Boxed
