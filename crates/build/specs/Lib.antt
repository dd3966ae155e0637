pub mod Lot
pub mod Outcome
pub mod Phases
pub mod Promise
pub mod Claims
