pub mod CleanBytes
pub mod DdHeard
pub mod DdItems
pub mod DdLawful
pub mod ItemTexts
pub mod Priorities
