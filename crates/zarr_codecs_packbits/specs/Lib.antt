pub mod Views
pub mod Turning
pub mod Packing
pub mod Metadata
pub mod Told
pub mod Spans
pub mod Parts
