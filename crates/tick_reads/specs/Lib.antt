pub mod Ways
pub mod Looks
pub mod Scans
pub mod Converts
pub mod Reads
pub mod Samples
