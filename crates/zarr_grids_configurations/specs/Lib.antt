pub mod Configurations
pub mod Errors
pub mod Grids
pub mod Laws
pub mod Numbers
pub mod Views
pub mod Written
