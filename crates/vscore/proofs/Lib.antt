pub mod Scales
pub mod Scores
