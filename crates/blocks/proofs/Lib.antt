-- The laws that the crates above cite.
pub mod Stored
pub mod Made
pub mod Kept
pub mod Row
