pub mod Views
pub mod Marks
pub mod Outcomes
pub mod Laws
