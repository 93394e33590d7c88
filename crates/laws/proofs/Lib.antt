-- The theorems, in the order in which they build on each other.
pub mod Meeting
pub mod Removals
pub mod Kept
pub mod Least
pub mod Tolerance
pub mod RingRemovals
pub mod Demoted
pub mod Rings
pub mod Over
pub mod History
