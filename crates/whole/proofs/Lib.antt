pub mod Slots
pub mod Chains
pub mod Agreement
pub mod CellRules
pub mod Claims
pub mod Cases
pub mod Refusing
