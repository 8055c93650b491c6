mod Folds
mod Hearing
pub mod Reading
mod Tagging
