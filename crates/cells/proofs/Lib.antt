pub mod Values
pub mod Seating
pub mod Sparing
pub mod States
pub mod Slots
pub mod Seats
pub mod Checks
