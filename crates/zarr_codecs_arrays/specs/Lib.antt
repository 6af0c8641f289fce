pub mod Offsets
pub mod Views
pub mod Outcomes
pub mod Values
pub mod Joined
