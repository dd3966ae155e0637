pub mod Laid
pub mod Seats
