pub mod Crossing
pub mod Passing
