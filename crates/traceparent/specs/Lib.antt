pub mod Cases
pub mod Laws
pub mod Reads
pub mod Writes
