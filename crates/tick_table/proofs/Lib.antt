pub mod Lists
pub mod Numbering
pub mod PenKeeps
pub mod Beginning
pub mod Closing
pub mod PassKeeps
