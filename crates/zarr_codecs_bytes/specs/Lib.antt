pub mod Views
pub mod Orders
pub mod Parts
pub mod Lines
pub mod Writing
