mod GrowthLemmas
mod KeyLemmas
pub mod PartialDecoderLemmas
pub mod PartialEncoderLemmas
mod SortedKeyLemmas
mod ValueMapLemmas
