-- The laws that the crates above cite: of a score made and demoted, and of what a put does and changes.
pub mod Scoring
pub mod Putting
