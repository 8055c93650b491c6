pub mod Keys
pub mod Laws
pub mod Layers
pub mod Prefixes
