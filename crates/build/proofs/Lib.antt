pub mod Counting
pub mod Phasing
pub mod Outcomes
pub mod Promising
pub mod Claims
