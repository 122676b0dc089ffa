pub mod GatherLaws
pub mod LineLaws
pub mod StopLaws
pub mod Listing
pub mod Pieces
pub mod ReadBack
pub mod FileLaws
pub mod Ranges
