pub mod Bases
pub mod Pairs
pub mod Spans
pub mod Windows
