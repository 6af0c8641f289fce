pub mod Entries
pub mod Views
pub mod Moving
pub mod Written
pub mod Sizes
pub mod Strided
pub mod Names
pub mod Refusals
