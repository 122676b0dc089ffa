pub mod Text
pub mod Inputs
pub mod Readings
pub mod Files
pub mod Samples
pub mod ReadBack
