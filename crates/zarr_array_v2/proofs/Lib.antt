pub mod Apart
pub mod Converted
pub mod Falling
pub mod Listed
pub mod Named
pub mod Read
pub mod Removed
pub mod SameVersions
