pub mod Contents
pub mod Laws
pub mod Layout
pub mod Spots
pub mod Stores
pub mod Tags
pub mod Uses
pub mod Walks
