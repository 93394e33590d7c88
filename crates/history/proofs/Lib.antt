pub mod History
pub mod Since
pub mod Pins
pub mod Contracts
