pub mod Telling
pub mod Functions
pub mod ShardsNest
pub mod Reading
pub mod Written
pub mod CopiedPoints
pub mod Crossing
pub mod CutSharded
