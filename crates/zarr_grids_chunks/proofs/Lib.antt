pub mod Filters
pub mod Partition
