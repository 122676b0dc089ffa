pub mod Watching
pub mod Deviating
pub mod MadeItems
pub mod MadeTruth
pub mod Judging
