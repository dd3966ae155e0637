pub mod Whole
pub mod CellRules
pub mod Claims
pub mod Cases
pub mod Refusing
