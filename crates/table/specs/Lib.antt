pub mod Slots
pub mod Readers
pub mod Claims
pub mod Agrees
