pub mod ChainCompaction
pub mod Shown
pub mod StoredAfresh
pub mod LocalReads
