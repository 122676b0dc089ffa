pub mod Format
pub mod Cut
pub mod Grammar
pub mod Kept
pub mod Steps
pub mod Packets
pub mod Matches
pub mod Samples
