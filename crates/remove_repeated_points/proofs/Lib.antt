pub mod Same
pub mod News
pub mod Calls
