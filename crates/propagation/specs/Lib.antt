pub mod Changes
pub mod Extracts
pub mod Faulted
pub mod Laws
pub mod Settings
pub mod Tables
