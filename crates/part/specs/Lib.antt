pub mod Rep
pub mod Parts
