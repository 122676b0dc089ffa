pub mod Orders
pub mod Winding
pub mod Sounding
pub mod Ticks
pub mod Samples
