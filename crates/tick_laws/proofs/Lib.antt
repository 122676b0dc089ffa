pub mod Going
pub mod Deciding
pub mod Reading
pub mod Opening
pub mod Legal
pub mod Agreeing
pub mod Asked
