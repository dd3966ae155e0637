pub mod Filling
pub mod Beginning
pub mod Claims
