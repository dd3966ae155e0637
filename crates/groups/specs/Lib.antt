pub mod Ordered
pub mod Stack
