pub mod Alls
pub mod Appends
pub mod Cuts
pub mod Joins
pub mod Prefixes
mod Replaces
pub mod Splitting
pub mod Trimming
