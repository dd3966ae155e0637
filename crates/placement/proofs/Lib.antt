pub mod Seating
pub mod Placing
pub mod Rounds
