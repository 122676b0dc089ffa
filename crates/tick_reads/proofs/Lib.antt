pub mod Runs
pub mod Endings
pub mod Conversions
pub mod Tells
