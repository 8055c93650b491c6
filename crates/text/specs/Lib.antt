pub mod Appends
pub mod Cursors
pub mod Inlines
pub mod Laws
pub mod Splits
pub mod Takes
pub mod Texts
pub mod Trims
