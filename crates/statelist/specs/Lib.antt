pub mod Choosing
pub mod Laws
pub mod Placing
pub mod Writing
pub mod Written
