pub mod Plot
pub mod Putting
