pub mod Scan
pub mod Rows
pub mod Points
mod Finite
