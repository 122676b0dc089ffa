pub mod Pulled
pub mod Inputs
pub mod Readings
pub mod Captured
