pub mod Cases
pub mod Items
pub mod Lists
pub mod Members
