-- The laws that the crates above cite, and those of the first of the places below one.
pub mod Scores
pub mod Memory
mod Children
