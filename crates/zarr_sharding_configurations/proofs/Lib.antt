pub mod Sizes
pub mod ReadsBack
