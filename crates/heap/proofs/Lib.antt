-- The laws that the crates above cite, and those of a place set anew, of a score stored there and of a heap with a hole.
pub mod Order
pub mod Heap
mod Places
mod Stored
mod Holes
mod Sinking
mod Rising
