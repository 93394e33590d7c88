pub mod Score
pub mod Scale
