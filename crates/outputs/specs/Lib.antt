pub mod Rows
pub mod Stacked
pub mod Placed
pub mod Claims
