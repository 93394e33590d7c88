pub mod Words
pub mod Ring
pub mod Calls
