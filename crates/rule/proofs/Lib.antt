-- The theorems about the definitions, in the order in which they build on each other.
pub mod Pins
pub mod Script
pub mod Answers
pub mod Reasons
pub mod Parts
pub mod Settled
pub mod ShutOut
