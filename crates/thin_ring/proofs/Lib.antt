pub mod Demoting
pub mod Moving
pub mod Running
