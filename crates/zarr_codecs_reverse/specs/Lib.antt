pub mod Lawful
pub mod Reversing
