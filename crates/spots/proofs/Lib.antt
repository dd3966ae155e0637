pub mod Charting
pub mod Passing
pub mod Trying
pub mod Hunting
