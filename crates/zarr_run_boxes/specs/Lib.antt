pub mod Outcomes
pub mod Asked
pub mod Calls
pub mod Compacting
pub mod Rewriting
