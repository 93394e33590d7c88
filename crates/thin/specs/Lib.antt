pub mod Queue
pub mod State
pub mod Plain
