pub mod Contexts
pub mod Ranges
