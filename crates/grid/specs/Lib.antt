pub mod On
pub mod Cross
