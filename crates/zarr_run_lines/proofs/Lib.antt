pub mod CommandLemmas
pub mod LinesLemmas
pub mod ProgressLemmas
pub mod ReadingLemmas
pub mod Runs
