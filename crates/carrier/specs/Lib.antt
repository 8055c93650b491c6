pub mod Kinds
pub mod Laws
pub mod Lents
pub mod Names
pub mod Steps
