pub mod Values
pub mod Bounds
pub mod Walk
pub mod Admission
pub mod Searches
pub mod Damage
pub mod Claims
