pub mod DecimalText
pub mod Printed
mod Digits
pub mod HexText
mod HexWriting
pub mod LawfulText
mod Numerals
mod Reading
pub mod OnlyText
pub mod Ranges
pub mod ReadBack
