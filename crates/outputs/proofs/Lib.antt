pub mod Stacking
pub mod Order
pub mod Noting
pub mod Storing
pub mod Claims
