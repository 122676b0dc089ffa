pub mod Lows
pub mod Linking
pub mod Frames
pub mod Places
pub mod Views
pub mod Credits
pub mod Adding
pub mod WholeRuns
