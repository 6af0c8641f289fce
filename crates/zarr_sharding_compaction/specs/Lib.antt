pub mod Layout
pub mod Copying
pub mod Outcomes
pub mod Laws
