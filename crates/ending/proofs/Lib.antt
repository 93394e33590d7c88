pub mod Zeros
pub mod Whole
