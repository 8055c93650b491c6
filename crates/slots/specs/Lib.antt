pub mod Laws
pub mod Places
pub mod Rules
pub mod Slots
pub mod Tables
