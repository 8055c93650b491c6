pub mod Laws
pub mod Values
