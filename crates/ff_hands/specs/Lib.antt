pub mod Orders
pub mod Windups
pub mod Journals
pub mod Bounds
pub mod Ranges
pub mod Samples
