pub mod Inside
pub mod Hands
pub mod Adding
pub mod Pens
pub mod Winding
pub mod Newest
pub mod Taking
