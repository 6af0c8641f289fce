pub mod InGrid
pub mod Laws
pub mod Intersecting
pub mod Sizes
pub mod Boxed
