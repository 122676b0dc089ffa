pub mod Spreads
pub mod Truths
pub mod Laws
pub mod Journals
pub mod Marks
