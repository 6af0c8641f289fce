pub mod ArrayCodecs
pub mod PackBits
pub mod Sections
pub mod Allowed
pub mod Chains
pub mod Laws
