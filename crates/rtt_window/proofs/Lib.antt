pub mod Leasts
pub mod Prefixes
pub mod FirstLeasts
pub mod Listed
pub mod Keeping
pub mod Pairing
pub mod Runs
