pub mod Reading
pub mod Numbers
pub mod Names
pub mod Parts
pub mod Lines
pub mod Reports
pub mod Told
