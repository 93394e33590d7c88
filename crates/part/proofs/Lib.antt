pub mod Holding
pub mod Filling
pub mod Listing
pub mod Advancing
mod Copying
