pub mod Items
pub mod MakingWalk
pub mod Positive
pub mod ReadsBack
pub mod Singles
pub mod ItemWalk
