pub mod Commands
pub mod Finding
pub mod Headline
pub mod Replies
pub mod Sessions
