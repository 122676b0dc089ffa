pub mod Plans
pub mod Fitting
pub mod Journals
pub mod Logs
pub mod Drives
pub mod Plays
pub mod Laps
