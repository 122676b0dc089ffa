pub mod Drawing
pub mod Lists
pub mod Rounding
pub mod Accepting
pub mod Lying
pub mod MadeLists
