pub mod Commands
pub mod Lines
pub mod Answers
pub mod Texts
pub mod Laws
pub mod Cursors
pub mod LineCells
