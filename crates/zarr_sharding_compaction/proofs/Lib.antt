pub mod Copying
pub mod Parity
pub mod Once
pub mod Chains
