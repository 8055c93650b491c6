mod Lengths
pub mod ReadBack
pub mod Telling
pub mod Writing
mod Shapes
