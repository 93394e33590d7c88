-- The laws that the crates above cite: of a removal and of a step, and what they rest on.
pub mod Candidates
pub mod Queue
pub mod Removing
pub mod Stepping
mod PickTurns
mod SeedTurns
