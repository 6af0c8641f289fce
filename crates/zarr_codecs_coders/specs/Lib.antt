pub mod Coders
pub mod Decoders
pub mod Encoders
