mod Listing
mod Others
mod Picking
mod Piling
