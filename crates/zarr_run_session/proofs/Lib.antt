mod Alike
pub mod CompactSteps
mod Bounds
mod Counts
pub mod EraseSteps
pub mod Plain
pub mod Beginning
pub mod Headline
pub mod AloneRuns
pub mod HeadlineStates
pub mod HeldSteps
pub mod Lifting
pub mod ReadSteps
pub mod Refusals
pub mod RewriteSteps
pub mod RunSteps
pub mod WriteSteps
