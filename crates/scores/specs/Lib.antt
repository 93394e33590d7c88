pub mod Memory
pub mod Scores
pub mod Children
