pub mod Thinning
pub mod Ending
pub mod Whole
pub mod Ready
