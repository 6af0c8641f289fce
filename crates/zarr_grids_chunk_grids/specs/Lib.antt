pub mod Errors
pub mod Grids
pub mod Laws
pub mod Walks
