pub mod Within
pub mod Row
