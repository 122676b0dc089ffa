pub mod Lists
pub mod Runs
pub mod Nodes
pub mod Links
