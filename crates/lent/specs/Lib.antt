pub mod Found
pub mod Fine
