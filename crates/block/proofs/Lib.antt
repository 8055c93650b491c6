mod Folding
pub mod Listing
mod Looks
pub mod Roads
pub mod Runs
mod Sweeps
pub mod Taking
pub mod Walks
mod Writes
