pub mod Lending
pub mod Calls
pub mod Settled
