pub mod Clones
pub mod PointLemmas
pub mod PutLemmas
pub mod TreeLemmas
