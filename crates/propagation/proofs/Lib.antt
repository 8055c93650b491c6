pub mod Chains
pub mod Showing
