pub mod Written
pub mod Chains
pub mod Joining
pub mod InBlocks
pub mod Settled
