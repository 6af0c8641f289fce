pub mod Inside
pub mod Texts
pub mod Outcomes
pub mod Numbers
