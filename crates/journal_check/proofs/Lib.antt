pub mod NumberLaws
pub mod ReadLaws
pub mod SignLaws
pub mod PartLaws
pub mod LineLaws
pub mod Sizes
pub mod Determined
