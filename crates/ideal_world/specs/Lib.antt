pub mod Deviations
pub mod Watching
pub mod MadeTruth
