pub mod Sheet
pub mod Claims
