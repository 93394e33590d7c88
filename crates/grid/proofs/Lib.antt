pub mod Signs
pub mod Values
pub mod Whole
pub mod Halves
pub mod Cross
pub mod Shift
