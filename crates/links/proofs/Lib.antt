-- The laws that the crates above cite.
pub mod Neighbours
pub mod Marks
pub mod Ring
pub mod Memory
pub mod Rings
pub mod Listing
pub mod Tests
mod Turns
