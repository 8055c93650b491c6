pub mod Answers
pub mod Writes
