pub mod Layout
pub mod Points
