pub mod Causes
pub mod Calls
pub mod Bytes
pub mod Memory
pub mod Streams
pub mod Pulls
pub mod Pushes
pub mod Blocks
