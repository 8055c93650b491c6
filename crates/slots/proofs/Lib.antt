mod Filling
mod Keeping
mod Listing
mod Looking
mod Searching
mod Setting
